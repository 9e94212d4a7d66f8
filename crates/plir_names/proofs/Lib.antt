mod Bearing
