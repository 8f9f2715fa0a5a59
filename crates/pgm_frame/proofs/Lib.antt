mod Photographs
